pub mod Table
pub mod Spelling
pub mod Refusals
pub mod WaitReading
