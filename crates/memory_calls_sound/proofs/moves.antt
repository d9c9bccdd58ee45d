pub mod ReadBytes
pub mod SourceBytes
pub mod CopiedCells
pub mod CopiedRows
pub mod MovedMemory
pub mod CopyCalls
pub mod CopySteps
