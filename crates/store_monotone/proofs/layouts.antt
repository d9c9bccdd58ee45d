pub mod Extents
pub mod TypeExtents
pub mod LaidApart
pub mod MadeLayouts
pub mod WorkedLayouts
