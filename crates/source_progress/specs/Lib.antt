pub mod StackKinds
pub mod Progress
