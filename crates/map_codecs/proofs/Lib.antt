pub mod Numbers
pub mod Reading
pub mod Table
pub mod Refusals
pub mod Spelling
pub mod WaitReading
