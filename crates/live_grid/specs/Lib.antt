pub mod Plans
pub mod Histories
pub mod Outcomes
pub mod Lives
pub mod Grids
pub mod Control
pub mod Fates
pub mod Stored
