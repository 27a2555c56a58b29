pub mod Turn
pub mod Plan
pub mod Shift
