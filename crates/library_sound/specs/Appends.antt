pub mod ApartTexts
pub mod AppendWrites
pub mod AppendCalls
