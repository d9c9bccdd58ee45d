pub mod Scanning
pub mod WordReading
pub mod Reading
pub mod Levels
pub mod Operands
pub mod Spans
pub mod Heads
pub mod Tails
pub mod Unique
mod Rows
