pub mod Runs
pub mod Left
pub mod Late
pub mod Passes
