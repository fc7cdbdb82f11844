pub mod ChecksLaws
pub mod FireLaws
pub mod FiredLaws
