pub mod TypeLaws
pub mod KnownValues
pub mod TypedStates
pub mod PlainCalls
mod ComparedNumbers
pub mod TypedInstructions
pub mod TypedEdges
pub mod TypedRuns
pub mod TypedAccesses
pub mod TypedPrograms
pub mod AllLaws
