mod copies
pub mod function_checks
mod inlined_layout
pub mod inlined_runs
pub mod inlining
mod jump_checks
pub mod normalized
pub mod temporaries
pub mod units
