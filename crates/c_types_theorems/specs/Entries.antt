pub mod IntegerEntries
