pub mod ExactTouches
pub mod MadeCopies
pub mod ExactCopies
