pub mod Calls
pub mod SpelledCalls
pub mod Waits
pub mod SpelledWaits
pub mod Shapes
pub mod Examples
