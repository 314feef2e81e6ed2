pub mod Granting
pub mod Truths
