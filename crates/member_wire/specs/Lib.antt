pub mod Kinds
pub mod Spelling
pub mod Reading
pub mod Said
pub mod Faults
pub mod TookWords
