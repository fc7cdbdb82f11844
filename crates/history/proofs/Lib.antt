pub mod FiguresLaws
pub mod Laws
pub mod QueuesLaws
