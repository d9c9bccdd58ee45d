pub mod Batches
pub mod MemberDepths
