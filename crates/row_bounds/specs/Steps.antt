pub mod FittingPrograms
pub mod StepFloors
