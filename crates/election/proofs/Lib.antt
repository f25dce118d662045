pub mod Turns
pub mod Effects
pub mod Meaning
pub mod NumberingTurns
pub mod Ordered
