pub mod ParameterNames
pub mod Followed
pub mod Jumped
pub mod Selected
pub mod Begun
