pub mod HitsStand
