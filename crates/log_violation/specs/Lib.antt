pub mod Violation
