pub mod History
pub mod Queues
pub mod Laws
pub mod Figures
