pub mod Undo
pub mod Installation
pub mod Calls
pub mod Promise
