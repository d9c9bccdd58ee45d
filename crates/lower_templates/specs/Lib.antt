pub mod Worklist
pub mod Views
