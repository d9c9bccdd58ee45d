pub mod NewestValues
pub mod PendingValues
pub mod Operating
