pub mod Prefix
pub mod Committed
