pub mod Operations
pub mod MachineItems
