pub mod RepeatedBytes
pub mod TypeEnds
pub mod NestedStructs
pub mod PartBytes
pub mod AbsentStructs
pub mod StandingTypes
pub mod StructuresApart
