pub mod Text
pub mod Heading
pub mod Occurrences
pub mod Feeds
pub mod Short
pub mod Refused
