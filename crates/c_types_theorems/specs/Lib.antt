pub mod Entries
pub mod Stores
pub mod Units
pub use Rattle.c_types.specs.Units.UnitChecks
