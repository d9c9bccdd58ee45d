pub mod Between
pub mod Chains
