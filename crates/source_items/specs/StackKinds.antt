pub mod KindedTerms
pub mod KindedStatements
pub mod KindedItems
pub mod KindedStates
