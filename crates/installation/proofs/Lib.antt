pub mod Tables
pub mod Logs
pub mod Turned
pub mod Held
