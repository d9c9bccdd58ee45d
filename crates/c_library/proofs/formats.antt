pub mod Formats
pub mod Flags
