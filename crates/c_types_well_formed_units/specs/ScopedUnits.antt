pub mod ScopedChecks
