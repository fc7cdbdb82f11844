pub mod CapacityLaws
pub mod FiguresLaws
pub mod LeastLaws
pub mod ResidueLaws
