pub mod Calls
pub mod Branches
