pub mod AllocationCalls
