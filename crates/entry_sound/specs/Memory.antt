pub mod FirstStates
