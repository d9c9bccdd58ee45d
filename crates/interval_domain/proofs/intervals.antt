pub mod Ranges
pub mod Made
mod Bitwise
