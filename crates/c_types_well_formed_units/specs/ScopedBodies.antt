pub mod ScopedBodies
