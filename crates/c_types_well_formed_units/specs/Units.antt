pub mod WellTypedUnits
