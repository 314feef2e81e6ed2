pub mod Laws
pub mod Written
pub mod Worked
