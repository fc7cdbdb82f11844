pub mod Nodes
pub mod Load
pub mod Sizes
pub mod Checks
pub mod Accepted
pub mod Walk
pub mod Plan
pub mod Figures
