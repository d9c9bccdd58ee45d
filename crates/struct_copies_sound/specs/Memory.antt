pub mod CopiedMemory
pub mod CopiedZeros
