pub mod Version
pub mod Known
