pub mod StringCalls
