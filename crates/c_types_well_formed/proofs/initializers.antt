pub mod Going
pub mod ReadySteps
pub mod TypedSubobjects
pub mod Initializing
pub mod Declaring
