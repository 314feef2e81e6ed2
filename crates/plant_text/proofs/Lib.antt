pub mod Bodies
pub mod Wholes
