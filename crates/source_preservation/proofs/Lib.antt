pub mod checks
mod initial_memory
mod items
mod liveness
pub mod memory
mod operations
pub mod ranges
mod safety
mod small_steps
mod tests
mod unit_checks
mod well_typed
