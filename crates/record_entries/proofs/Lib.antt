pub mod Given
pub mod Listed
pub mod Scanned
pub mod Tails
pub mod Walks
pub mod Views
