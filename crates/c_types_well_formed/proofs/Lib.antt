mod constant_folding
pub mod decided_tests
pub mod initializers
pub mod layouts
mod operators
pub mod rules
pub mod statements
mod stores
mod terms
pub mod types
