mod DebtsOfStatements
mod DebtsOfSwitches
mod MarkedOnce
pub mod MarkedTemplates
