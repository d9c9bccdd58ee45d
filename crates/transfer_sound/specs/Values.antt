pub mod OperandTypes
pub mod SoundSteps
