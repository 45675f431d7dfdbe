pub mod Nesting
pub mod Parts
pub mod ReadFields
pub mod Refusals
pub mod Steps
pub mod Texts
pub mod Written
pub mod Tables
