pub mod StaticInstances
pub mod Parameters
pub mod Started
