mod FitNormalized
mod StartNames
mod WholePrograms
mod LaidPrograms
pub mod LoweredPrograms
