pub mod Attempt
pub mod Entries
pub mod Streams
pub mod TcpDoors
