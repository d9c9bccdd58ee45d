pub mod Objects
pub mod Units
