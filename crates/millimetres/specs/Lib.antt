pub mod Measured
pub mod MeasuredLaws
