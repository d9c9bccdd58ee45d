mod Rows
pub mod Leading
pub mod Cycles
