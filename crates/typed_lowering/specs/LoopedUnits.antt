pub mod LoopedStatements
pub mod LoopedUnits
pub mod CalmTemplates
