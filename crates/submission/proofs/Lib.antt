pub mod Dispatch
pub mod Meaning
