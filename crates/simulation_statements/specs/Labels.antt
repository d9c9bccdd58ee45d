pub mod LabelScopes
pub mod NotedScopes
pub mod FoundLabels
