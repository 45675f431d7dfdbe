pub mod Beginnings
pub mod Readings
pub mod Feeds
pub mod Written
pub mod Spelled
pub mod Questions
