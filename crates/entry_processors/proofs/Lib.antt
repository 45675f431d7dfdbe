mod Forms
mod NumberValues
pub mod Outcomes
