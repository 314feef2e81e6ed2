pub mod Exchanges
pub mod Undone
pub mod Flags
pub mod Accepted
pub mod Trees
pub mod Entries
pub mod Keeps
