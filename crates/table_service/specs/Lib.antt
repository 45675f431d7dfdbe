pub mod Phases
pub mod Services
pub mod Refusals
pub mod Sending
pub mod Steps
