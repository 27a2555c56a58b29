pub mod Motions
pub mod StoreLaws
pub mod OpenLaws
pub mod PutLaws
