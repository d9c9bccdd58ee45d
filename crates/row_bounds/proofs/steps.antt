pub mod Pointers
pub mod Writes
pub mod Plans
pub mod Steps
pub mod Edges
pub mod Starts
pub mod Systems
