pub mod Relays
pub mod Serving
pub mod Sessions
