pub mod Period
pub mod Ranges
pub mod Ratios
pub mod Mean
pub mod Bounded
