mod bases
mod conversions
mod inlined_programs
mod looped_templates
mod looped_units
mod plain_programs
mod starts
mod templates
mod units
mod worklists
pub use Rattle.typed_programs.proofs.runs.AllLaws
pub use Rattle.typed_programs.proofs.runs.TypedPrograms
pub use Rattle.typed_programs.proofs.runs.TypedStates
