pub mod Wrote
pub mod Same
