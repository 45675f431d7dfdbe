pub mod Authentications
pub mod Replies
pub mod SpelledAuthentications
pub mod Examples
