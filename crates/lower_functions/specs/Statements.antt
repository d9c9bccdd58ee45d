pub mod ScopeJumps
pub mod PlainStatements
pub mod Loops
pub mod Switches
pub mod Jumps
pub mod Statements
