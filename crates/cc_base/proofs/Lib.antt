pub mod Names
pub mod Filling
mod Sorting
mod DiagnosticOrder
pub mod RuleOrder
pub mod Closed
