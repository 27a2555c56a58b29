pub mod RunLaws
pub mod ReportLaws
pub mod TypedLaws
