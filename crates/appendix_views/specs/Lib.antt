pub mod Views
pub mod Counted
pub mod Recorded
