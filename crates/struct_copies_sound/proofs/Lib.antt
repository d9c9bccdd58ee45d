pub mod batches
mod cells
pub mod copies
pub mod leaves
pub mod memory
pub mod ordered_structs
mod spans
pub mod structs
pub use Rattle.memory_calls_sound.proofs.allocations.AllocationSteps
pub use Rattle.memory_calls_sound.proofs.frees.FreeCalls
pub use Rattle.memory_calls_sound.proofs.moves.CopySteps
pub use Rattle.memory_calls_sound.proofs.reallocations.ReallocationCalls
pub use Rattle.memory_calls_sound.proofs.Texts
pub use Rattle.memory_calls_sound.proofs.Calls
pub use Rattle.memory_calls_sound.proofs.SpelledZeros
