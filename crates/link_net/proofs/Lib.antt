pub mod Counting
pub mod InOrder
pub mod Lists
pub mod Nets
pub mod Sending
