pub mod Standing
pub mod Telling
pub mod Tables
pub mod StandsFor
pub mod Steps
pub mod Examples
