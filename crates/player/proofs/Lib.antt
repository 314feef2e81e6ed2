pub mod Nones
pub mod Grants
pub mod Walks
pub mod Places
pub mod Only
