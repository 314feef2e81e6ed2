pub mod Refusal
pub mod Output
