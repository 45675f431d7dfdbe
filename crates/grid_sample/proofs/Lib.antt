pub mod Writing
pub mod Samples
