pub mod MemorySteps
pub mod CallSteps
pub mod OperationGroups
pub mod Steps
pub mod StepViolations
