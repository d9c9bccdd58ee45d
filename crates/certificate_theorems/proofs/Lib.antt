mod lines
pub mod proved
mod reading
mod round_trip
mod sound
pub mod verdicts
