pub mod MemoryCalls
pub mod StringCalls
pub mod Effects
pub mod Planning
