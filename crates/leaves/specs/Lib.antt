pub mod Words
pub mod Leaf
pub mod Telling
