pub mod CharacterNumbers
pub mod Calls
pub mod ResultCalls
