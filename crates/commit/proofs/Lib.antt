pub mod Ends
pub mod PrefixTurns
pub mod CommitLaws
pub mod Difference
pub mod CommittedTurns
pub mod PrefixLaws
