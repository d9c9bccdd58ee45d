pub mod GrownMemory
pub mod GrownSanity
pub mod Entering
