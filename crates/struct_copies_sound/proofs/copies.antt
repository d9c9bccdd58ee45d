pub mod NewCells
pub mod FinishedZeros
pub mod CopyRows
pub mod CopySteps
