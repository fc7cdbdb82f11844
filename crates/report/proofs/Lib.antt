mod Ways
pub mod AcceptedLaws
pub mod ChecksLaws
pub mod RoomLaws
