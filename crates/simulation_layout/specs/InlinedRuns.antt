pub mod InlinedRuns
