pub mod Nearest
pub mod SingleNumbers
pub mod TurnedNumbers
