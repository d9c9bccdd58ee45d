pub mod Kinds
pub mod TakenKinds
pub mod GoingReplies
pub mod OperationLaws
