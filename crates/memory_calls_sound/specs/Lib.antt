pub mod Theorems
pub mod Frees
pub mod Moves
pub mod Allocations
pub mod Reallocations
pub use Rattle.library_sound.specs.SoundSteps
pub use Rattle.library_sound.specs.Spelling.SpellSteps
