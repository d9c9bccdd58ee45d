pub mod StaticBytes
pub mod NamedTargets
pub mod ExactStatics
pub mod ExactStarts
