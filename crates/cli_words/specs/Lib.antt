pub mod Draws
pub mod Numerals
pub mod Words
