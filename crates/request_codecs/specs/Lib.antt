pub mod Numbers
pub mod Requests
pub mod Readdressing
pub mod Openings
pub mod Laws
