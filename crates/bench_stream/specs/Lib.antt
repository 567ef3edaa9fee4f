pub mod Lines
pub mod Stream
pub mod StreamLaws
pub mod TallyLaws
pub mod Summary
