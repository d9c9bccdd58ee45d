pub mod Constants
pub mod Kept
pub mod Bodies
pub mod Files
pub mod Units
