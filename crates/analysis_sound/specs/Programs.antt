pub mod OpenSteps
