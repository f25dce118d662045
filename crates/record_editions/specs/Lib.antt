pub mod Numbers
pub mod Editions
pub mod Turned
pub mod Laws
