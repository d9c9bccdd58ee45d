pub mod WaysBetween
pub mod WaysOfChains
