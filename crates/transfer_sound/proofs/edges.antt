pub mod TakenEdges
pub mod EdgeSteps
