mod SameAccesses
pub mod ShownRuns
pub mod VerifiedRuns
