pub mod Printed
pub mod Handed
