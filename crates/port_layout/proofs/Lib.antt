pub mod Walks
pub mod Kept
pub mod Puts
pub mod Tables
pub mod Turns
pub mod Facts
pub mod Blanks
pub mod Laws
