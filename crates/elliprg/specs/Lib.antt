pub mod Rg
pub mod Few
