pub mod Ends
pub mod LockCalls
pub mod Locks
