pub mod ByteViews
pub mod InstanceViews
pub mod AccessOutcomes
pub mod Digits
pub mod SoundPointers
