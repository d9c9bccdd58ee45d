pub mod Rewrites
pub mod ObjectRows
pub mod SetCells
pub mod BlankRows
pub mod WholeObjects
pub mod Forgetting
