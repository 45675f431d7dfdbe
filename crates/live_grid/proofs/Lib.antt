mod Copied
mod Crashed
mod FirstMember
mod Gone
mod Kept
mod Looks
mod Missed
mod Once
mod Popped
mod Pushed
mod Settled
mod Standing
mod Unanswered
pub mod Following
pub mod PassPlaces
pub mod Trying
pub mod Controls
