pub mod Boxes
pub mod WaitSets
pub mod Runs
pub mod Laws
pub mod Lists
pub mod Turns
pub mod ListLaws
