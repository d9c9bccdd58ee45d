pub mod EnterSteps
