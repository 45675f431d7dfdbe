pub mod Calls
pub mod Carried
pub mod Decisions
pub mod Nodes
pub mod Sending
pub mod Taken
pub mod Takings
