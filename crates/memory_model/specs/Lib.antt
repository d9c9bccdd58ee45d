pub mod Memory
pub mod Effects
