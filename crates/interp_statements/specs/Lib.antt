pub mod Choices
pub mod LabelViews
