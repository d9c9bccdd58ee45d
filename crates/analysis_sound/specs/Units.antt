pub mod SoundUnits
pub mod CheckedUnits
pub mod WorkedPrograms
pub mod UnrolledSound
