pub mod Closing
pub mod Pieces
pub mod Sheet
