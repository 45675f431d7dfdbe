pub mod Adopted
pub mod Adoptions
pub mod Executing
pub mod Leaving
pub mod Looking
pub mod Reactions
pub mod SendLists
pub mod Takes
