pub mod Loop
pub mod Rd
pub mod Series
pub mod Steps
