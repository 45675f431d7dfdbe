pub mod Outcomes
pub mod Standing
pub mod Laws
