pub mod FileScope
pub mod Units
