pub mod cells
pub mod checked
pub mod entries
mod initializers
pub mod lowered
pub mod memory
pub mod starts
pub mod tables
