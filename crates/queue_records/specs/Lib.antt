pub mod Examples
pub mod QueueCalls
pub mod Queues
