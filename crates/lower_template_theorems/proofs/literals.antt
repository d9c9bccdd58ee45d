pub mod StartingTemplates
