pub mod Leaves
pub mod Tearing
