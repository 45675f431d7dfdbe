pub mod Layouts
pub mod Heads
pub mod ReadCalls
pub mod ReadWaits
pub mod ReadListenings
pub mod Items
pub mod Streams
pub mod Writing
