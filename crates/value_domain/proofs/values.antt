pub mod Counts
pub mod Lies
