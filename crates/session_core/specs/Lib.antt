pub mod Items
pub mod Laws
pub mod Places
pub mod Sessions
