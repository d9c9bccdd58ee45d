pub mod NormalizedRuns
