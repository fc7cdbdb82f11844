pub mod InputLaws
pub mod AnswersExactly
pub mod PrintedLaws
pub mod PrintedInColumnsLaws
