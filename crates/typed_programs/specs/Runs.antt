pub mod TypedRuns
