mod analyses
mod outcomes
mod reports
mod units
