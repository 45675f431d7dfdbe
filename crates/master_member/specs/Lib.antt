pub mod Roles
pub mod Outcomes
pub mod Steps
