pub mod DefinedRuns
