pub mod BoundedCalls
