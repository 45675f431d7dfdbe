pub mod Parts
pub mod Places
pub mod Searches
pub mod Slots
pub mod Looks
pub mod Worlds
pub mod Partitions
