pub mod Opening
pub mod Distinct
pub mod RowLaws
