pub mod LiveBases
pub mod ObjectLives
pub mod Freeing
pub mod Allocations
pub mod ObjectLengths
