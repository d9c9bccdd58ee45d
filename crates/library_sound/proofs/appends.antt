pub mod ApartTexts
pub mod AppendRules
pub mod AppendWrites
pub mod AppendPlaces
pub mod AppendCalls
pub mod AppendSteps
pub mod Counterexamples
