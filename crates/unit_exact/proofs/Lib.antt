mod analyses
mod case_edges
mod case_labels
mod switches
pub mod units
pub mod unrolled
