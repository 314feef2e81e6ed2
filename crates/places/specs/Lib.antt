pub mod Changes
pub mod Moves
pub mod Pool
pub mod Ranks
