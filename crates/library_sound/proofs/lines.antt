pub mod LineContents
pub mod LineRules
pub mod LineCalls
pub mod LineEnds
