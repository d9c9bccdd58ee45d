pub mod CopiedMemory
pub mod CopyGoes
pub mod CopiedZeros
