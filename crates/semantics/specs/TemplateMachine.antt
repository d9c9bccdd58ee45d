pub mod TemplateStates
pub mod TemplateActs
pub mod TemplateExits
pub mod TemplateSteps
