pub mod Steps
pub mod Walks
mod Rows
