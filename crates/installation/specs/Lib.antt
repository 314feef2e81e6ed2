pub mod Slots
pub mod Memory
pub mod Perform
pub mod Hands
pub mod Turns
pub mod Ending
pub mod Names
