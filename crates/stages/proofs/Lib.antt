pub mod ChangeLaws
pub mod RowlessLaws
pub mod ChooseLaws
pub mod ChildLaws
