pub mod LinePlaces
pub mod ReadAlike
