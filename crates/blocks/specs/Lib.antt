pub mod Rooms
pub mod Block
pub mod Telling
