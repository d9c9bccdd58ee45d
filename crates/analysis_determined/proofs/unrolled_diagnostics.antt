pub mod SameOperations
pub mod SameInstructions
pub mod SameEdges
pub mod SameStarts
pub mod UnrolledPrograms
pub mod UnrolledMaps
pub mod UnrolledPairs
pub mod UnrolledAnalyses
