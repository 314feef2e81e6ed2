pub mod Plan
pub mod States
pub mod Start
pub mod Lay
pub mod Moves
