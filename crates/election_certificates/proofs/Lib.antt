pub mod Loops
pub mod Ordered
pub mod MarkTurns
pub mod MarkLaws
