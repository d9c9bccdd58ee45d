pub mod DistinctCases
pub mod DistinctChecks
