pub mod certificates
mod reports
pub mod units
