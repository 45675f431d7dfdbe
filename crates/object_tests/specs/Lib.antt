pub mod LockExamples
pub mod ProcessorExamples
pub mod ChangeExamples
pub mod WaitExamples
