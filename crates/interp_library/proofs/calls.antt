pub mod LineSteps
pub mod StringSteps
