pub mod ClearSteps
