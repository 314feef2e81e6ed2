pub mod Chains
pub mod Words
pub mod Ports
pub mod Makes
pub mod Laws
