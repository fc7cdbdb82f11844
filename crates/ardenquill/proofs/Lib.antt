pub mod FlatLaws
pub mod RecFlatLaws
