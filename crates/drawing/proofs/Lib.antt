pub mod Standings
pub mod Indexes
pub mod Listing
pub mod Present
pub mod Fits
pub mod LeastTree
pub mod Running
pub mod Drawing
