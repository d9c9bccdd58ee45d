pub mod edges
pub mod entries
mod steps
mod stores
pub use Rattle.system_monotone.proofs.Systems
pub use Rattle.system_monotone.proofs.systems.RegularPrograms
pub use Rattle.system_monotone.proofs.ViolationOrder
