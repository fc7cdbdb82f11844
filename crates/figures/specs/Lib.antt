pub mod Questions
pub mod Literals
pub mod Files
pub mod ChainRefusals
pub mod RunRefusals
pub mod Figures
