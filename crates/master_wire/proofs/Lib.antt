pub mod KindFormat
pub mod DecisionFormat
pub mod LogFormat
pub mod MessageFormat
pub mod WireLaws
pub mod Loop
pub mod Spelled
