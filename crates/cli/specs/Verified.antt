pub mod ShownRuns
