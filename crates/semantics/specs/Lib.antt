pub mod CfgMachine
pub mod SourceMachine
pub mod TemplateMachine
