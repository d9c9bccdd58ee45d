pub mod MachineReplies
pub mod LoadedNumbers
pub mod ScalarClasses
pub mod LoadSteps
pub mod StoreSteps
pub mod MemoryTheorems
