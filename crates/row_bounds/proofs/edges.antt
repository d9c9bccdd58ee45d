pub mod Blocks
pub mod OwnFloors
pub mod OwnEdges
pub mod Thresholds
pub mod WellFormed
pub mod IntervalSystems
pub mod ShortLists
