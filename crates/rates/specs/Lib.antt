pub mod Rates
pub mod Load
