pub mod Slots
pub mod Deadlines
pub mod Alike
pub mod Answers
