pub mod WellTypedBodies
