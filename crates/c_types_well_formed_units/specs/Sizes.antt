pub mod FitTypes
pub mod SmallChecks
