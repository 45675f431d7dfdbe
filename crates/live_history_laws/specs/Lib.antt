pub mod Entries
pub mod Fitting
pub mod Leaving
pub mod Names
pub mod Reopenings
pub mod Uncontrolled
