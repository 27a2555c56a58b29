pub mod Row
pub mod Parted
