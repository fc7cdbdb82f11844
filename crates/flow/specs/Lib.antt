pub mod Flow
pub mod Shown
pub mod Poured
pub mod Lost
