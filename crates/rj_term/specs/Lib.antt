pub mod Helper
pub mod Borders
pub mod Term
pub mod Few
