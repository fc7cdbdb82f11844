pub mod Losses
pub mod Checks
pub mod Tally
