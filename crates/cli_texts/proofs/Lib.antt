pub mod Fractions
pub mod Lines
