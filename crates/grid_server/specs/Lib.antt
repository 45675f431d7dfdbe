pub mod Commands
pub mod Serving
pub mod Settings
pub mod Tasks
