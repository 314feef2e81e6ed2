pub mod Open
pub mod Draw
pub mod Truth
