pub mod NoCalls
pub mod LoopSimulates
