pub mod State
pub mod Fired
pub mod Checks
pub mod Fire
