pub mod Counting
pub mod Links
