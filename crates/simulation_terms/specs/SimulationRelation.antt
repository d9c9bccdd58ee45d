pub mod Activations
pub mod Simulates
