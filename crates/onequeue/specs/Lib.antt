pub mod Residue
pub mod Least
pub mod Known
pub mod Capacity
pub mod Figures
