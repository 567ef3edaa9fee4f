pub mod Borders
pub mod Few
