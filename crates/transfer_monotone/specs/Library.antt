pub mod Sites
pub mod SimpleCalls
pub mod AllocationCalls
pub mod StringCalls
