pub mod Operands
pub mod Conversions
pub mod Arithmetic
pub mod PointerArithmetic
pub mod Comparisons
pub mod Indirections
