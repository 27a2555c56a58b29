pub mod FollowsLaws
pub mod ReductionLaws
pub mod RunLaws
pub mod AskedLaws
