pub mod BackLaws
pub mod IntoLaws
pub mod MadeLaws
pub mod TestLaws
pub mod TurnLaws
pub mod JudgeLaws
