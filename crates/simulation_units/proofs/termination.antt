mod Lists
mod StoppedTemplates
mod LaidBounds
mod MadeBounds
mod ForwardPrograms
pub mod EndedRuns
