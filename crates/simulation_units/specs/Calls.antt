pub mod ReachedCalls
