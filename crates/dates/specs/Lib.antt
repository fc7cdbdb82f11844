pub mod Question
pub mod Dues
pub mod Figures
