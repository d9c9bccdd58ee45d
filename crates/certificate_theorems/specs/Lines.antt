pub mod NearRanges
pub mod NearCells
