pub mod Calling
pub mod Echoes
