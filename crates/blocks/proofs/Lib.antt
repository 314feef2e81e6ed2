pub mod Naming
pub mod Halving
pub mod Batching
pub mod Tears
pub mod Telling
