pub mod Meaning
pub mod Blank
pub mod Map
