pub mod Calls
pub mod Making
pub mod Starting
pub mod Steps
pub mod Turns
pub mod Workers
pub mod Workplaces
