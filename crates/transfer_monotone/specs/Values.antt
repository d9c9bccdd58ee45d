pub mod RisingRows
pub mod LaidOut
pub mod ViolationsBelow
pub mod StepLaws
