pub mod FirstRoles
pub mod FirstSanity
pub mod Beginnings
