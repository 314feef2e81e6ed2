pub mod Rates
