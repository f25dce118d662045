pub mod Joins
pub mod DecimalLaws
pub mod PutLaws
