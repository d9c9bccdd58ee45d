pub mod WorldViews
pub mod Reaches
pub mod Allocations
pub mod Scans
pub mod ScalarKinds
