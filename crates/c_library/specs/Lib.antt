pub mod Formats
pub mod Headers
