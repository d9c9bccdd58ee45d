pub mod LeadingTemplates
