pub mod ExactIntervals
pub mod NearExact
pub mod PutExact
pub mod Violated
pub mod Told
pub mod Faults
pub mod ValueSteps
