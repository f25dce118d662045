pub mod Findings
pub mod Picked
pub mod Committed
pub mod Unseen
pub mod Unknown
pub mod Leaders
