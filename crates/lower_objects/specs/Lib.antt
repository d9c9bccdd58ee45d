pub mod Shapes
pub mod Counts
