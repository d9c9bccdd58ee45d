pub mod LookedStatements
pub mod LookedUnits
pub mod LookedScopes
pub mod LookLaws
pub mod SmallUnits
