pub mod RowsLaws
pub mod WordsLaws
