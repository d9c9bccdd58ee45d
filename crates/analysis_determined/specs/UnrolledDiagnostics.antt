pub mod SameParts
pub mod CopiedMaps
