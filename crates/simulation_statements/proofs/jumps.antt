pub mod Jumps
pub mod Returns
