pub mod Stating
pub mod Bodies
