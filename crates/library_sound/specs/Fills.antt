pub mod FillCalls
