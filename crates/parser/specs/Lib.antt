pub mod Site
pub mod Stretches
pub mod Rows
