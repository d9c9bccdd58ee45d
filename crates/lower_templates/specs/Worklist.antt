pub mod Acts
pub mod Pieces
pub mod TermKinds
pub mod Scopes
pub mod Works
pub mod Settings
pub mod Plans
