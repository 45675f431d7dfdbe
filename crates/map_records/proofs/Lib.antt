mod Locking
mod Rows
pub mod SameEntries
mod Uses
pub mod Values
