pub mod Shown
pub mod PartLaws
