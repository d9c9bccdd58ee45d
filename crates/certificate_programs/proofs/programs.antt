pub mod Solved
pub mod HeldMaps
pub mod ReadMaps
