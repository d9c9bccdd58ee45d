pub mod FullParts
pub mod Clearing
