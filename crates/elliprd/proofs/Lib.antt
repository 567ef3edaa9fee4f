pub mod Within
pub mod Few
