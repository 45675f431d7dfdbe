pub mod Calls
pub mod Shapes
pub mod SpelledCalls
pub mod Waits
pub mod SpelledWaits
pub mod Examples
