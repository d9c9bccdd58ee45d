pub mod Values
pub mod Edges
pub mod Library
