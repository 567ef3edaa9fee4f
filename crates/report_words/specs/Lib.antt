pub mod Words
pub mod Room
pub mod Meaning
pub mod BlockLaws
pub mod ReportLaws
pub mod RoomLaws
