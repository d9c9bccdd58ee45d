pub mod KindSets
pub mod TypedTemps
pub mod RowKinds
pub mod CutCells
pub mod CutRows
