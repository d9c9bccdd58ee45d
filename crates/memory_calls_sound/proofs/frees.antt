pub mod ReleasedMemory
pub mod FreedCells
pub mod FreedRows
pub mod Releases
pub mod FreeCalls
