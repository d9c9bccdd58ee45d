pub mod Analyses
pub mod CheckedPrograms
pub mod Counts
pub mod StepBounds
