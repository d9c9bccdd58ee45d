pub mod Theorems
pub mod Calls
pub mod Returns
pub mod Preconditions
pub mod Units
pub mod Termination
pub mod CheckedUnits
