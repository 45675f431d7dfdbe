pub mod Placing
pub mod Keeping
pub mod Ordering
pub mod Events
