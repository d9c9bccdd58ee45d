pub mod ShiftedValues
mod Standings
mod LaidObjects
mod LaidEdges
pub mod LaidSteps
