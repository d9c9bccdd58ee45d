mod ShiftedActs
pub mod FinishedPrograms
pub mod LaidNames
pub mod LaidCopies
pub mod LaidInlinings
