mod Lines
mod Compared
pub mod FeedsLaws
pub mod FiguresLaws
pub mod HeadingLaws
pub mod RefusedLaws
pub mod ShortLaws
