pub mod Plans
pub mod Calls
pub mod Arguments
pub mod Characters
pub mod Allocations
pub mod Outputs
