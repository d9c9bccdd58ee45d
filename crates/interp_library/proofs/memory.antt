pub mod Resized
pub mod Copies
