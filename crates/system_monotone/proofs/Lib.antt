pub mod diagnostics
mod library_writes
mod struct_copies
pub mod systems
pub use Rattle.transfer_monotone.proofs.edges.FilledSteps
pub use Rattle.transfer_monotone.proofs.edges.FittedOrder
pub use Rattle.transfer_monotone.proofs.edges.MemorySteps
pub use Rattle.transfer_monotone.proofs.edges.Operations
pub use Rattle.transfer_monotone.proofs.edges.Systems
pub use Rattle.transfer_monotone.proofs.values.IntegerSteps
pub use Rattle.transfer_monotone.proofs.values.OwnBases
pub use Rattle.transfer_monotone.proofs.values.PointerSteps
pub use Rattle.transfer_monotone.proofs.values.Results
pub use Rattle.transfer_monotone.proofs.values.RisingCells
pub use Rattle.transfer_monotone.proofs.values.TempPlaces
pub use Rattle.transfer_monotone.proofs.values.Touches
pub use Rattle.transfer_monotone.proofs.values.ViolationOrder
