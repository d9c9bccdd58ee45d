pub mod Types
pub mod Programs
