pub mod Trace
pub mod Figures
pub mod Traced
pub mod Rising
pub mod Entries
