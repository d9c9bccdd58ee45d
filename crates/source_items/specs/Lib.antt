pub mod Operations
pub mod Returns
pub mod Liveness
pub mod StackKinds
