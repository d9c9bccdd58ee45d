pub mod DividesByStored
