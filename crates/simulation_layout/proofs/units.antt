pub mod FitPieces
pub mod CheckedRuns
