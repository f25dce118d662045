pub mod ListBounds
pub mod ClosingLaws
pub mod SplitLaws
pub mod SheetLaws
pub mod TakingLaws
