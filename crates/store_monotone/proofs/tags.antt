pub mod RepeatedTags
pub mod LeafTags
pub mod PlacedTags
pub mod TypeTags
pub mod PlainTags
pub mod FoldedTags
pub mod PartTags
