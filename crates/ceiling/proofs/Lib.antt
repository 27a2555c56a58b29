pub mod CeilingHolds
pub mod CeilingExample
pub mod RankLaws
pub mod Settling
pub mod Spending
pub mod Lowering
pub mod Counting
