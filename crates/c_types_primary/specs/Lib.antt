pub mod Lists
pub mod Primaries
pub mod Members
pub mod TypeNames
pub mod Calls
