pub mod Lists
pub mod Queues
pub mod Answers
