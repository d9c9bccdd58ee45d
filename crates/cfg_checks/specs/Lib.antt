pub mod Bodies
pub mod EnteredBlocks
pub mod NumberedBlocks
