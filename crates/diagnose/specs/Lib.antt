pub mod Diagnostics
pub mod Operands
