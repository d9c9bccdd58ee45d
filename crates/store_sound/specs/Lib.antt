pub mod Concretization
pub mod Operations
pub mod Programs
pub mod Chars
pub mod Regions
