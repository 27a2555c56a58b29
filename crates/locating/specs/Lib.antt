pub mod Outwards
pub mod Known
