pub mod ExpandedItems
