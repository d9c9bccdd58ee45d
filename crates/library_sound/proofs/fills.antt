pub mod FillCells
pub mod FillZeros
pub mod FillRows
pub mod Targets
pub mod WriteCalls
pub mod FillCalls
pub mod FillSteps
pub mod Counterexamples
