pub mod FillLaws
pub mod ReadingSteps
