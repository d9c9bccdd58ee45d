pub mod SoundAnalyses
pub mod FoundRuns
pub mod Instructions
pub mod Sites
mod CharacterLeaves
pub mod SpelledTexts
pub mod ScalarTests
pub mod OpenSteps
