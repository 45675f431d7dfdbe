pub mod Crews
pub mod Rooms
