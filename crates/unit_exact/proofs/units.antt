pub mod EndedRuns
pub mod SingleUnits
