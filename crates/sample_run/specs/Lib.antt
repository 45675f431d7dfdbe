pub mod SampleRuns
pub mod Summaries
