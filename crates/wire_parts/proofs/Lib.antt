pub mod Choices
pub mod Following
pub mod Formats
pub mod LowFirst
pub mod PartFormats
pub mod Refusals
pub mod SizedFormat
pub mod WideNumbers
