pub mod Events
pub mod Writing
pub mod SpelledEvents
pub mod Sent
pub mod Registrations
pub mod SpelledRegistrations
pub mod Examples
