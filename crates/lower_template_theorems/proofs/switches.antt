pub mod SendingPieces
pub mod SendingTemplates
