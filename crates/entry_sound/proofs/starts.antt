pub mod StaticSteps
pub mod LiteralCells
pub mod ParameterCells
pub mod StartedRows
pub mod StaticBytes
