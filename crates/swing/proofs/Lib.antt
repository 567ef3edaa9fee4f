pub mod Bounded
pub mod Compared
pub mod Mean
pub mod Ranges
pub mod Ratios
