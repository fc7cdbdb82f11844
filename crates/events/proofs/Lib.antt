pub mod FiresFrom
pub mod CountsLaws
pub mod EventsLaws
pub mod FiguresLaws
pub mod NamingLaws
pub mod PeakLaws
