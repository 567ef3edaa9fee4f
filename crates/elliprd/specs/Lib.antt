pub mod Means
pub mod Rd
