pub mod TextWrites
pub mod TextCalls
