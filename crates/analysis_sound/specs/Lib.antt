pub mod Theorems
pub mod Programs
pub mod Analyses
pub mod Units
