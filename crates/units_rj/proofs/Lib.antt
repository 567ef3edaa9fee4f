pub mod Rj
pub mod AboveZero
