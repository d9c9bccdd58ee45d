pub mod Pointers
pub mod Enumerators
mod Rows
