pub mod TypedAccesses
pub mod StoreLaws
