pub mod Pass
pub mod Lead
pub mod Seen
pub mod Left
pub mod Turn
