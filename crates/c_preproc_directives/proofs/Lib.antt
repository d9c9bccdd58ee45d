pub mod Groups
pub mod Definitions
pub mod OpenFiles
