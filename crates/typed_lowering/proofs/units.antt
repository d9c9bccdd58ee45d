pub mod TypedOperations
pub mod TypedFlows
pub mod TypedUnits
