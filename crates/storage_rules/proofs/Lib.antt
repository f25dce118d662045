pub mod Numbering
pub mod PrefixTurns
pub mod PairTurns
pub mod AllRules
