pub mod SolverState
pub mod Progress
pub mod RowMap
pub mod Entering
