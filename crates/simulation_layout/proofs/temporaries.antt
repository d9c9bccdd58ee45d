pub mod LowPrograms
pub mod EntryLocals
