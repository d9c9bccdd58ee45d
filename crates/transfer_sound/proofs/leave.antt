pub mod LeftMemory
pub mod EndedValues
pub mod Leaving
