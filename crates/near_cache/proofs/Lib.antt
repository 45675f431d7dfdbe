pub mod Waiting
pub mod Keeping
pub mod Answering
pub mod CallerLemmas
pub mod Running
