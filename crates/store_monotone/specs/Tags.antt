pub mod TypeTags
pub mod PartTags
