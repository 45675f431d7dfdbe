pub mod Spelling
pub mod Reading
pub mod Readers
pub mod Feeding
pub mod Hellos
pub mod Answers
pub mod Laws
