pub mod Walking
pub mod Filling
pub mod Drawing
pub mod Answers
pub mod AcceptedLaws
pub mod ChecksLaws
pub mod FiguresLaws
pub mod SizesLaws
