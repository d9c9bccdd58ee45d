pub mod TypedTables
pub mod NamedTypes
pub mod OwnTypes
pub mod FirstTypes
