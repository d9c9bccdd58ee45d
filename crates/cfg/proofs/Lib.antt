pub mod Ordered
pub mod Nearest
mod WellFormedRows
mod ShapeRows
