mod ValuesBelow
mod StepsAlike
mod TestsAlike
pub mod CallsAlike
pub mod TurnsSimulate
