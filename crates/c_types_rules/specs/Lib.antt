pub mod CallCycles
pub mod Rules
