mod Pass
pub mod ChecksLaws
pub mod LossesLaws
