pub mod Theorems
pub mod CaseLabels
pub mod CaseEdges
pub mod Analyses
pub mod Switches
pub mod Units
pub mod Unrolled
pub use Rattle.entry_sound.specs.Checked.CheckedStarts
