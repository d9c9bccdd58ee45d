pub mod TypeBytes
pub mod StandingTypes
pub mod LeafTypes
pub mod PointedTypes
pub mod TypedStates
pub mod TypedPrograms
pub mod EffectLaws
pub mod CopyLaws
