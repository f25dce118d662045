pub mod Widths
pub mod Readers
