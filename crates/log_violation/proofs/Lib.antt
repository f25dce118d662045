pub mod ViolationLaws
pub mod Kept
pub mod Single
