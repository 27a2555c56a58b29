pub mod RowLaws
pub mod RowLawsFirst
pub mod RowLawsLater
pub mod RowLawsLoops
pub mod RowLawsLoaded
pub mod RowLawsGather
