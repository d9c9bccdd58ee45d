pub mod BlockEdges
pub mod ApartWays
pub mod Tables
pub mod PassedBlocks
pub mod Ways
pub mod SingleSteps
pub mod SingleRuns
