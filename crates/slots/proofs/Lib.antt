pub mod Trimmed
pub mod ChainsLaws
pub mod RunsLaws
