pub mod LookedRuns
