pub mod OneSpans
pub mod OneCopies
pub mod PlainPadding
pub mod CopiedRows
pub mod FinishedRows
pub mod CopiedValues
pub mod CopiedStates
