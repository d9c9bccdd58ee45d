pub mod Texts
pub mod Addresses
