pub mod ViolationSets
pub mod Touches
pub mod LibraryArguments
pub mod AllocationChecks
pub mod IntegerChecks
pub mod PointerChecks
pub mod StringScans
pub mod Temporaries
