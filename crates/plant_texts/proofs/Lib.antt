pub mod Writing
pub mod Lines
pub mod Back
