pub mod Word
pub mod Set
pub mod Walk
