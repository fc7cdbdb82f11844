mod Digits
pub mod DigitsLaws
pub mod FiguresLaws
pub mod SignedLaws
