mod Follow
mod Answers
pub mod FiguresLaws
pub mod QuestionLaws
