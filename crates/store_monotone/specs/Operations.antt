pub mod TopCells
pub mod TopRows
pub mod RowsBelow
pub mod Placements
pub mod ConsistentRows
pub mod StoreLaws
pub mod PlainShapes
