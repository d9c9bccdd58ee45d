pub mod AllSteps
pub mod Counterexamples
