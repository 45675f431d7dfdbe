pub mod Orders
pub mod Reading
pub mod Running
pub mod Serving
