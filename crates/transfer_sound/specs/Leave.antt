pub mod LeaveSteps
