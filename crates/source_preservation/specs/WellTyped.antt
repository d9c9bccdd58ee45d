pub mod ExactTerms
pub mod WellTypedTerms
pub mod WellTypedStatements
pub mod WellTypedItems
pub mod WellTypedStates
