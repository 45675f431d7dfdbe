mod Possible
pub mod Stood
pub mod Rings
pub mod Taken
pub mod Sends
pub mod Takes
pub mod Links
pub mod Calls
pub mod Acts
pub mod Serves
pub mod Invariant
pub mod ByItself
pub mod Theorem
pub mod OwnAnswers
pub mod Fits
pub mod Sizes
