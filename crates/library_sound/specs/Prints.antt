pub mod PrintCalls
