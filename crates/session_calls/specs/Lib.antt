pub mod Passes
pub mod Sessions
pub mod Openings
pub mod Clause
pub mod Calls
pub mod Making
pub mod Laws
pub mod Learning
