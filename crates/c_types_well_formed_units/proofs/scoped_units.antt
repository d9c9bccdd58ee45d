pub mod Headed
pub mod Files
pub mod Units
