pub mod Turns
pub mod Functions
