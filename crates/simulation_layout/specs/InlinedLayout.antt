pub mod Shifts
pub mod Copies
pub mod Layouts
pub mod LaidRuns
