pub mod Bits
pub mod Toggle
