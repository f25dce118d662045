pub mod Entries
pub mod Views
pub mod Spelled
pub mod Examples
