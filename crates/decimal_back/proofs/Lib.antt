pub mod Back
pub mod Value
pub mod Texts
