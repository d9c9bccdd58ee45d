pub mod CutSteps
pub mod KindSteps
pub mod KindRows
