pub mod Comparison
pub mod Extension
pub mod Table
pub mod Prefix
