pub mod Operations
pub mod Structs
pub mod Layouts
pub mod Tags
