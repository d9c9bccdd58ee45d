pub mod SameRuns
