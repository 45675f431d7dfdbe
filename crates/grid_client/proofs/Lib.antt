pub mod Lists
pub mod Nears
pub mod Settling
pub mod Placing
pub mod Asking
pub mod Telling
pub mod Reading
pub mod Ties
