pub mod Positions
pub mod StartBytes
pub mod FirstMemory
pub mod FirstNames
pub mod WellStarted
