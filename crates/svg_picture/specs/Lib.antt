pub mod Drawn
pub mod Markup
pub mod Words
