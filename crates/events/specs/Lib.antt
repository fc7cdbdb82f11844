pub mod Events
pub mod Peak
pub mod Naming
pub mod Counts
pub mod Figures
