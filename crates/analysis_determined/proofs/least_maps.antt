pub mod OrderedSets
pub mod ExactAnalyses
pub mod LeastAnalyses
pub mod CountedSteps
mod WrongTables
mod WholeTypes
