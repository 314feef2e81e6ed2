pub mod Flags
pub mod Blanks
pub mod Calls
