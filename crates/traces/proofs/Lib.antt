pub mod EntriesLaws
pub mod FiguresLaws
pub mod RisingLaws
pub mod TracedLaws
