pub mod OrderedPrograms
pub mod MadeTables
