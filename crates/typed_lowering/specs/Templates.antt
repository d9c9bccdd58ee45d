pub mod TypedTemplates
