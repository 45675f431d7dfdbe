pub mod Limits
pub mod LineExamples
pub mod Lines
pub mod Pieces
pub mod Readings
pub mod Spelling
pub mod Splitting
pub mod Words
