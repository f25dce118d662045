pub mod Head
pub mod Tables
pub mod Decode
pub mod Rules
pub mod Values
pub mod Fresh
pub mod Writes
pub mod Order
