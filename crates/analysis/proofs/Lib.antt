pub mod CheckedPrograms
pub mod SolvedMaps
mod Found
mod VisitBounds
