pub mod CopiedLists
mod MovedStandings
mod MovedEdges
pub mod SameSteps
pub mod LinkedPrograms
