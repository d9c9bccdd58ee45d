pub mod SoundUnits
pub mod CheckedUnits
pub mod WorkedProgram
mod WorkedOperands
pub mod MetPremises
pub mod UnrolledSound
