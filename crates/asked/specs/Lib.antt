pub mod With
pub mod Twice
pub mod Lost
pub mod Reached
