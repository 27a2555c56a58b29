pub mod UpdateLaws
pub mod GatherLaws
