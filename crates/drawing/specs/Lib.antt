pub mod Tables
pub mod Tree
pub mod Answer
pub mod Ranks
