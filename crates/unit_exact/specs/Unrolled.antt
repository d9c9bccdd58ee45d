pub mod UnrolledUnits
pub mod UnrolledLoops
