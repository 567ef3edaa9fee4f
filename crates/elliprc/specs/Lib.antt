pub mod Rc
pub mod Few
