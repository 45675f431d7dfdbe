pub mod Draws
pub mod Calls
pub mod Script
pub mod Laws
