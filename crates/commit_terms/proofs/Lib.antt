pub mod TermTurns
pub mod TermLaws
pub mod Meaning
