pub mod ObjectSteps
