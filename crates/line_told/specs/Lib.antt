pub mod Words
pub mod Outcomes
pub mod Printing
pub mod Happenings
