pub mod StartLaws
pub mod UnfittedSystems
pub mod CutStarts
