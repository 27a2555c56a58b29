pub mod Listed
pub mod Sheet
pub mod Marked
pub mod Cuts
