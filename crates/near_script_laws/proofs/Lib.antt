mod Told
mod Lives
mod Connections
mod Patterns
mod Names
mod Sizes
mod Facts
mod RuledLines
mod Standing
mod Others
mod Feeding
mod Looking
mod Opening
mod Hits
mod Within
mod Scripts
pub mod Theorem
