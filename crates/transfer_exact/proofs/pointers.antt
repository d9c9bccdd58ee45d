pub mod Objects
pub mod PointersExact
pub mod Addresses
pub mod Moves
pub mod SoleBases
pub mod Comparisons
pub mod Parts
pub mod PointerSteps
