pub mod Parts
pub mod Fractions
pub mod Sizes
pub mod Rounds
