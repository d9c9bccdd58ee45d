pub mod LeastCells
pub mod MapTexts
