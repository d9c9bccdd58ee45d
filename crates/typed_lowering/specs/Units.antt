pub mod TypedUnitLaws
pub mod PlainUnits
