pub mod Again
pub mod Keeping
pub mod Numbers
pub mod Sending
pub mod Takes
pub mod WholeSteps
