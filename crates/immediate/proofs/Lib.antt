mod Answers
pub mod ChecksLaws
pub mod FiguresLaws
pub mod LentLaws
pub mod LongLaws
pub mod SlotsLaws
pub mod StepsLaws
