pub mod Fields
pub mod Frames
pub mod Requests
pub mod Responses
pub mod Replies
pub mod Spelled
pub mod Structures
pub mod Examples
