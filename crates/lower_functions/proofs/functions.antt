pub mod Stacks
pub mod OneTemplate
pub mod Numbers
