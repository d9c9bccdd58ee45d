pub mod Laying
pub mod Expressing
pub mod Declaring
pub mod Inside
pub mod Specifying
pub mod NearStores
