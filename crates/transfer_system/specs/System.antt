pub mod BlockPasses
pub mod FlowMachines
pub mod SystemChecks
pub mod FlowLaws
pub mod RegularPrograms
