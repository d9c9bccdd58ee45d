pub mod NormalizedPieces
pub mod QuietFunctions
pub mod SameActs
pub mod NormalizedSteps
mod QuietRuns
pub mod NormalizedReturns
