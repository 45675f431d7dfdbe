pub mod Acks
pub mod Adopting
pub mod Answering
pub mod Changes
pub mod Facts
pub mod Rings
pub mod Rooms
pub mod Views
