pub mod Keys
pub mod Murmur
