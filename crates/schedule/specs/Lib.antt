pub mod Counts
pub mod Figures
pub mod Reached
pub mod Schedule
