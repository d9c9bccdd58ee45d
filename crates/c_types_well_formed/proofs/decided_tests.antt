pub mod ModelKinds
pub mod Rewrapped
pub mod ConvertedOperands
pub mod MadeNumbers
mod NamedOperands
mod IntegerSides
mod PointerSides
pub mod MadeTests
pub mod SwitchOperands
