pub mod Pending
pub mod Operands
