pub mod Checks
pub mod Figures
pub mod Long
pub mod Steps
pub mod Lent
