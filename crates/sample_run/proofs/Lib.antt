pub mod SkippedRuns
pub mod RefusedOnce
pub mod RunCounts
pub mod TextLines
pub mod LaterLines
pub mod Sampling
pub mod Samples
