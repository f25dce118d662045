pub mod WithMark
pub mod Order
pub mod Marks
