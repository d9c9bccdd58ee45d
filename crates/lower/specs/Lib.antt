pub mod TemplateLaws
pub mod Inlining
