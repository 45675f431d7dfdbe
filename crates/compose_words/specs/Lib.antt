pub mod Waits
pub mod Listenings
pub mod Sayings
pub mod Sessions
pub mod Layout
pub mod Lines
