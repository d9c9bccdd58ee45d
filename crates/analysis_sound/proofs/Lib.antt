pub mod analyses
pub mod programs
pub mod units
