pub mod Checks
pub mod Bench
pub mod Decimals
