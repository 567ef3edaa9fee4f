pub mod Bounds
pub mod PackLaws
