pub mod Several
pub mod Claims
pub mod Examples
