pub mod StandingJumps
pub mod EndedObjects
pub mod Leavings
pub mod ReturnedFunctions
