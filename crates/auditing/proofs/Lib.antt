pub mod CountedLaws
