pub mod entries
pub mod runs
pub mod struct_copies
mod structs
pub use Rattle.analysis_sound.proofs.analyses.FoundRuns
pub use Rattle.analysis_sound.proofs.analyses.ScalarTests
pub use Rattle.analysis_sound.proofs.analyses.SoundAnalyses
pub use Rattle.analysis_sound.proofs.programs.AllSteps
pub use Rattle.analysis_sound.proofs.units.CheckedUnits
pub use Rattle.analysis_sound.proofs.units.UnrolledSound
pub use Rattle.transfer_sound.proofs.induction.Blocks
pub use Rattle.entry_sound.proofs.memory.FirstMemory
pub use Rattle.entry_sound.proofs.memory.StartBytes
