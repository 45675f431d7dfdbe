pub mod Scopes
pub mod LookUps
pub mod Caches
pub mod Codes
pub mod Runs
pub mod Ends
