pub mod Begun
pub mod ReadingLaws
