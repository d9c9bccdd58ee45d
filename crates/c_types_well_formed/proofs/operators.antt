pub mod MadeUnary
pub mod MadeSizes
pub mod MadeChoices
pub mod MadeAssignments
pub mod MadeOperators
