pub mod Fronts
pub mod Statements
pub mod Blocks
pub mod Externals
pub mod Units
