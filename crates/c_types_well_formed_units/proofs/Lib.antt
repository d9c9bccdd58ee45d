mod heads
mod parameters
mod scoped
mod scoped_bodies
mod scoped_units
mod sizes
mod trees
mod units
