pub mod BodyObjects
