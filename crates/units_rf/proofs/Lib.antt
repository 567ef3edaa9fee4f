pub mod Examples
pub mod Means
pub mod Rc
pub mod Rf
pub mod Rounds
