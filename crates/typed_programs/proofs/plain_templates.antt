pub mod LeadingStatements
pub mod LeadingSwitches
pub mod LeadingForms
pub mod LeadingTemplates
