pub mod Certificates
pub mod Prefixes
pub mod TermSearch
pub mod Rows
