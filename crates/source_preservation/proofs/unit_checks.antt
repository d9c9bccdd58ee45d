pub mod FoundLabels
pub mod LookedStatements
pub mod LookedUnits
pub mod LookedScopes
mod TermRows
mod UnitRows
