pub mod Counts
pub mod Bases
