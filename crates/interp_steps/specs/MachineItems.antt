pub mod MachineViews
pub mod Moves
pub mod Asked
