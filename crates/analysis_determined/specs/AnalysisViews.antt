pub mod SameViews
