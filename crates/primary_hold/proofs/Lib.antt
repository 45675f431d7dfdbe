pub mod AckLists
pub mod AckPlaces
pub mod AnswerLists
pub mod Latest
pub mod Settles
