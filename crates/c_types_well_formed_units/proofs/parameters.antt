pub mod Longer
pub mod Growing
pub mod Steps
pub mod Heads
pub mod Objects
