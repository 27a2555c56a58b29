pub mod Base
pub mod Cell
pub mod Bounds
pub mod Sound
pub mod Idle
