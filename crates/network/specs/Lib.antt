pub mod Ends
pub mod Standings
