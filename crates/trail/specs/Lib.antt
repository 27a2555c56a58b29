pub mod Trail
pub mod Findings
pub mod Written
pub mod AuditLine
