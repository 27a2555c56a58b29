pub mod BitLaws
pub mod NotedLaws
pub mod SessionLaws
pub mod StoredLaws
