pub mod Words
pub mod Held
pub mod Texts
pub mod Parts
pub mod RoadLaws
