pub mod Machine
pub mod Demands
pub mod TermOrder
pub mod Examples
