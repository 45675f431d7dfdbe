pub mod Invariant
pub mod Occur
pub mod Hear
pub mod Moves
pub mod Theorem
