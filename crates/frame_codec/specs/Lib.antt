pub mod Feeding
pub mod Flags
pub mod FrameReaders
pub mod Frames
pub mod Laws
pub mod Layout
pub mod Marks
pub mod Reading
