pub mod LoweredStarts
