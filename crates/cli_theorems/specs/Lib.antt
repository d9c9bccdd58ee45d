pub mod Theorems
pub mod Units
pub mod Reports
pub mod Certificates
