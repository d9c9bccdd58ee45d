pub mod TypedOperands
pub mod TypedMaps
