pub mod Means
pub mod Rf
