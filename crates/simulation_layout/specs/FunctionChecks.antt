pub mod LabelsOnce
pub mod NewObjects
pub mod NamesThere
pub mod UnitParts
