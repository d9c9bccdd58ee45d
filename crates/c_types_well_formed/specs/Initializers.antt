pub mod ReadyStates
pub mod PartLaws
pub mod WellTypedInitializers
pub mod WellTypedDeclarations
