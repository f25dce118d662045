pub mod Places
pub mod ComparisonTurns
pub mod Turns
pub mod Kept
pub mod ComparisonMeaning
pub mod Meaning
