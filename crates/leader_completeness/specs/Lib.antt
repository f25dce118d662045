pub mod Judgement
pub mod Marks
pub mod Relevance
pub mod Check
