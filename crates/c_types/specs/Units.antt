pub mod UnitDefinitions
pub mod UnitEntries
pub mod Streams
pub mod FunctionDefinitions
pub mod UnitChecks
