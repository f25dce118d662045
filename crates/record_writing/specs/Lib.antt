pub mod Format
pub mod Given
pub mod Spans
pub mod Puts
pub mod Writing
pub mod Laws
