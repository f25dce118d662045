pub mod Scans
pub mod BitLayout
pub mod Values
