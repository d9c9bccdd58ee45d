pub mod MarkArithmetic
pub mod Debts
pub mod DebtsOfTerms
pub mod DebtsOfConditions
pub mod LabelCounts
