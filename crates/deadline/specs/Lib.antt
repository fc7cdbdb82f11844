pub mod Deadline
pub mod Figures
