pub mod Certify
pub mod Numbering
