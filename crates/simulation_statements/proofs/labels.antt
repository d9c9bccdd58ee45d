pub mod LabelScopes
pub mod CountedScopes
pub mod NotedScopes
pub mod FoundLabels
