pub mod SameBlocks
mod SameSystems
mod SamePairs
pub mod OneAnalysis
