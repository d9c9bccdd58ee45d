pub mod layouts
pub mod leaves
mod memory
pub mod plain_templates
mod plain_units
pub mod plain_worklists
pub mod runs
pub use Rattle.run_exact.proofs.Blocks
