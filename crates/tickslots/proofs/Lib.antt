pub mod AlikeLaws
pub mod AnswersLaws
pub mod KeptLaws
pub mod SlotsLaws
