pub mod OpenSteps
pub mod Progress
