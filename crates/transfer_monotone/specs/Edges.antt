pub mod MemoryLaws
pub mod FilledRows
pub mod CallLaws
pub mod ProgramLaws
