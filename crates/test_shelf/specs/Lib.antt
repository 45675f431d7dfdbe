pub mod Journals
pub mod ShelfLaws
