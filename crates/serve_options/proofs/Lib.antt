pub mod EntryReads
pub mod Refusals
pub mod ServeReads
