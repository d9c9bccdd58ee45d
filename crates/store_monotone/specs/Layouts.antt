pub mod MadeLayouts
