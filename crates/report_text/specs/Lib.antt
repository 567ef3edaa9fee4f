pub mod Text
pub mod RoomLaws
pub mod HexLaws
pub mod Examples
