pub mod TextLaws
pub mod DigitLaws
pub mod RoomLaws
pub mod SameLaws
