pub mod AskedLaws
