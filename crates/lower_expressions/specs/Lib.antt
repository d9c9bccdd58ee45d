pub mod Assignments
pub mod Branches
pub mod Calls
pub mod LvaluePointers
pub mod Values
