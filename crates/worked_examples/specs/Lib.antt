pub mod Theorems
pub mod SourceRuns
pub mod OneLoop
pub mod WrongTemplates
pub mod TypedUnit
pub mod PlainUnit
pub mod UnrolledUnit
