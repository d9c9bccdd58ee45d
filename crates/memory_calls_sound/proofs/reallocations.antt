pub mod OldValues
pub mod FreshTurns
pub mod OldRows
pub mod Resized
pub mod OldInstances
pub mod ReallocatedRows
pub mod ReallocationCalls
