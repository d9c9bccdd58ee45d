pub mod Bodies
pub mod CalledPlans
pub mod CalledSimulates
pub mod CalledFunctions
pub mod EntrySimulates
