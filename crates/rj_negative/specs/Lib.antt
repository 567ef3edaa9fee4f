pub mod Reduction
pub mod Few
