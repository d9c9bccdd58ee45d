pub mod Listing
pub mod Fronts
pub mod Declaring
pub mod Specifying
pub mod Initializing
pub mod Starting
pub mod Stating
pub mod Uniting
