pub mod IntegerSides
pub mod SideTurns
pub mod IntegerTests
