pub mod CountedLabels
pub mod MarkedObjects
pub mod ListedScopes
pub mod NamesThere
pub mod SwitchedIntegers
pub mod RoomOfTerms
pub mod UnitParts
mod LookRows
