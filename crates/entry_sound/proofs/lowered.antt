pub mod TableWalks
pub mod NotedBases
pub mod EntryBases
pub mod LoweredStarts
