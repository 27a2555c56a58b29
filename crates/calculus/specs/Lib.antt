pub mod Formed
pub mod Terms
pub mod TermOf
pub mod TermListing
pub mod Moves
pub mod Numbers
pub mod Up
