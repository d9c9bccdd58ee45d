pub mod Marks
pub mod ProperMemory
pub mod MarkOperations
pub mod MarkLaws
