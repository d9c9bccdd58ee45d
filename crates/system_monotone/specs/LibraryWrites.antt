pub mod TextOrder
pub mod TextCalls
pub mod CopyOrder
pub mod MemoryCalls
