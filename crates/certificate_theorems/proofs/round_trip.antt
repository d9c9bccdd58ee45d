pub mod LineEnds
pub mod RowWords
pub mod OwnCells
pub mod MapWords
