pub mod ReallocationCalls
