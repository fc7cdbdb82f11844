pub mod AlikeLaws
pub mod AnswersLaws
pub mod ChecksLaws
pub mod KeptLaws
pub mod ListsLaws
pub mod QueuesLaws
pub mod SameLaws
