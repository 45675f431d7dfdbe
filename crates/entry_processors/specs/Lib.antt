pub mod Forms
pub mod NumberValues
pub mod OutcomeFacts
pub mod Places
pub mod Processors
