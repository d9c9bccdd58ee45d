pub mod LabelSets
pub mod AllocStates
pub mod Values
pub mod Cells
pub mod ValueTables
