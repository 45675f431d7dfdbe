pub mod Errors
pub mod Histories
pub mod Limits
pub mod Names
pub mod Objects
pub mod Refusals
pub mod Shelves
