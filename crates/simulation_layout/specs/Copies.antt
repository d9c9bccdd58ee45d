pub mod LowTemporaries
pub mod FitTemplates
