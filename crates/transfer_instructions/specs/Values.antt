pub mod Scalars
pub mod ResultTemps
pub mod IntegerSteps
pub mod PointerSteps
