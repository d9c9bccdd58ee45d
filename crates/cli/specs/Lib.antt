pub mod Theorems
pub mod Command
pub mod Verified
