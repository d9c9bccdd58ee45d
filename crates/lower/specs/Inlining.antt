pub mod MovedActs
pub mod Inlinings
pub mod Lowerings
pub mod WellMade
pub mod AsCounted
