mod Ending
mod Handed
mod Joining
mod Keeping
mod Marching
pub mod OfCells
pub mod Opened
pub mod WholeCalls
pub mod Places
mod Refusing
mod Starting
mod Taking
mod Learned
