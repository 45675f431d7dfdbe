pub mod EntryFacts
pub mod Examples
pub mod Idling
pub mod MapEntries
pub mod MapTable
pub mod SameEntries
