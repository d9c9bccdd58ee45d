pub mod MapSteps
