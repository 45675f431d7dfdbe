pub mod Calls
pub mod Sessions
pub mod Callers
pub mod Gathered
pub mod Counts
