pub mod Window
pub mod Session
pub mod Noted
