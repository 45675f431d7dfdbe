pub mod Calling
pub mod Places
pub mod Queues
pub mod Removed
pub mod Serving
pub mod Going
pub mod MadeCalls
