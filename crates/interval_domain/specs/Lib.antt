pub mod Numbers
pub mod Intervals
