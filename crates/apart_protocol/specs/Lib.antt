pub mod Contents
pub mod Member
pub mod Rulings
pub mod Machine
pub mod Claims
pub mod Examples
pub mod Sizes
