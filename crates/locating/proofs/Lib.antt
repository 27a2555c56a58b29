pub mod OutwardsLaws
pub mod KnownLaws
