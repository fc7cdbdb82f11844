pub mod DeadlineLaws
pub mod FiguresLaws
