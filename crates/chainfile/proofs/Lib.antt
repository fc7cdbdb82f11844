mod Reading
pub mod Writing
pub mod AcceptedLaws
pub mod FileLaws
pub mod RoundTripLaws
