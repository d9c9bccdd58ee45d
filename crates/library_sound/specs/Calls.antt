pub mod ResultCalls
