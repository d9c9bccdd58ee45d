pub mod LoopedRows
