pub mod Halted
pub mod Lost
pub mod Left
pub mod Joined
