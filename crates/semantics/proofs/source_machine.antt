mod RunLaws
mod SameRelations
pub mod CountedLabels
