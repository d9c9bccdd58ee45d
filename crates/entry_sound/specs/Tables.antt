pub mod TypedInitializers
pub mod UnitStarts
pub mod Beginnings
