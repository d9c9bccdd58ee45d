mod Rows
pub mod DistinctValues
pub mod OpenSwitches
pub mod Declared
pub mod Stated
pub mod Units
