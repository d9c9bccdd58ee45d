pub mod TypedRows
