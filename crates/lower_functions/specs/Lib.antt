pub mod Statements
pub mod Functions
