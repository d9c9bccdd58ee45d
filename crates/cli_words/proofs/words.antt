pub mod Values
pub mod OneFault
pub mod Taking
pub mod Steps
mod WorkedWords
