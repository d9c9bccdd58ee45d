pub mod Refinements
pub mod Edges
pub mod StartRows
