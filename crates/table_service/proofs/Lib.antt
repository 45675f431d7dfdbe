pub mod Candidates
pub mod Sent
