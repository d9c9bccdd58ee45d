pub mod ByteSteps
pub mod InstanceSteps
pub mod NumberSteps
pub mod DigitSteps
pub mod Totals
