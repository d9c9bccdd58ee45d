pub mod GrownTrees
pub mod KeptNotes
pub mod CountedLabels
pub mod NotedCases
pub mod NotedDefaults
pub mod NotedChoices
