pub mod Reading
pub mod Steps
pub mod PlacedLaws
pub mod EndLaws
pub mod KeyLaws
pub mod BackLaws
