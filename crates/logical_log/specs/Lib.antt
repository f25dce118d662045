pub mod Observation
pub mod Judging
pub mod Writing
