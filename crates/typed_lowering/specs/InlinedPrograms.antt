pub mod TypedInlinings
