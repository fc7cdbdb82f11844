pub mod File
pub mod Packed
pub mod Accepted
pub mod RoundTrip
pub mod Places
