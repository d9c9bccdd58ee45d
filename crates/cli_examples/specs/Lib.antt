pub mod Theorems
pub mod Units
pub mod Outcomes
pub mod Analyses
pub mod Reports
