pub mod Starts
pub mod Inputs
