pub mod PlainCalls
