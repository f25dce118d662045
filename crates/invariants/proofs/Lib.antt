pub mod Pass
pub mod Meaning
