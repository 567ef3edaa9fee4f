pub mod Duplicate
pub mod Positive
pub mod Few
