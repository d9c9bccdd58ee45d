pub mod Groups
pub mod Definitions
pub mod Directives
pub mod OpenFiles
