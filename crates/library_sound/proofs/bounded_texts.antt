pub mod KnownScans
pub mod FirstCharacters
pub mod BlankBytes
pub mod BoundedCalls
pub mod BoundedSteps
