pub mod Instructions
pub mod SimulationRelation
pub mod SmallSteps
pub mod Worklists
pub mod Scopes
pub mod Terms
