pub mod Turns
pub mod SplitCounts
