pub mod Numbering
pub mod Functions
pub mod Files
pub mod Units
