pub mod MadeTemplates
pub mod UnitRuns
