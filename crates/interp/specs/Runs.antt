pub mod OutcomeViews
pub mod Replays
pub mod Following
