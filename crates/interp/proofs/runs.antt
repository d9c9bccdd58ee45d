pub mod Allocations
pub mod Growth
pub mod Turns
pub mod TurnsTold
pub mod Beginnings
