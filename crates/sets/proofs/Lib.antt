pub mod WordLaws
pub mod SetLaws
pub mod WalkLaws
pub mod ToldLaws
