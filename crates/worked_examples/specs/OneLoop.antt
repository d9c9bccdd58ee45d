pub mod Units
pub mod Loop
pub mod NoCalls
