pub mod Codes
pub mod Joining
mod Rows
