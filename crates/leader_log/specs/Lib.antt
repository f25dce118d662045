pub mod Comparison
pub mod Observation
