pub mod BoundedTemplates
pub mod EndedRuns
