pub mod Intervals
pub mod Values
