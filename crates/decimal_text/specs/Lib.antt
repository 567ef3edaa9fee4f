pub mod Shape
pub mod Text
pub mod Bounds
pub mod Plain
pub mod Examples
