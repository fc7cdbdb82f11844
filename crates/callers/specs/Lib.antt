pub mod Replayed
pub mod Ran
pub mod ReadBack
pub mod Layouts
