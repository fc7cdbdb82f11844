pub mod CountsLaws
pub mod FiguresLaws
pub mod ReachedLaws
pub mod ScheduleLaws
