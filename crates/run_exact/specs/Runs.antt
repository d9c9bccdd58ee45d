pub mod SingleRuns
