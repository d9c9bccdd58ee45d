mod calls
mod checked_units
mod preconditions
mod returns
mod termination
mod units
