pub mod Single
pub mod BestResults
pub mod BestSingles
pub mod Rounding
mod Outside
mod WrongTables
