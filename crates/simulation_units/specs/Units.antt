pub mod UnitRuns
