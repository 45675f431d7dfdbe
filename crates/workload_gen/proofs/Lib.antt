pub mod Appending
pub mod ByteLists
pub mod SampleLines
pub mod ReadBack
pub mod Sizes
pub mod Heard
