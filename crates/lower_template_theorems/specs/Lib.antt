pub mod Worklists
pub mod Growth
pub mod PendingLabels
pub mod Literals
pub mod Names
pub mod Switches
pub mod LabelDefinitions
