pub mod ApartSwitches
pub mod ApartEdges
