pub mod OwnLists
pub mod PlainSystems
pub mod ShortLists
