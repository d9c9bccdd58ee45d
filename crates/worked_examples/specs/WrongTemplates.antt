pub mod Refusals
pub mod LeftOutCalls
pub mod SkippedSteps
pub mod EarlyStores
pub mod KeptObjects
pub mod TakenElses
pub mod BothOperands
