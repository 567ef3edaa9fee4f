pub mod Begun
pub mod MeasuredLaws
