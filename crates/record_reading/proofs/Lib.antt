pub mod Heads
pub mod Readable
pub mod Faults
