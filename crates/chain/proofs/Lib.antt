pub mod Passing
pub mod ChecksLaws
pub mod FaultsLaws
pub mod RefusalsLaws
pub mod SoundLaws
